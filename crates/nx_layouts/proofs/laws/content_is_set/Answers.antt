use Rattle.nx_layouts.proofs.SettingLemmas.{content_is_set}
use Rattle.nx_layouts.proofs.laws.content_is_set.Goals as goal

pub returns : goal.returns
returns c = content_is_set
