-- What a check finds of pages.
use Rattle.nx_replay.specs.Log.{Pages}
use Rattle.nx_rules.specs.declared.verdict.Verdict.{Verdict}
use Rattle.nx_rules.specs.declared.verdict.Verdict.TheVariants.{Sound, Wrong}
use Rattle.nx_rules.specs.Tour.{Tour, IsWholeTour}
use Rattle.nx_rules.specs.Broken.{IsFirstBroken}

-- a walk over the pages comes to its end
abbrev pub KeepsRules : Pages → Type 0
KeepsRules pages = (tour : Tour) × IsWholeTour pages tour

-- the pages keep all rules, or this is the first that they break
abbrev pub IsVerdict : Pages → Verdict → Type 0
IsVerdict pages Sound = KeepsRules pages
IsVerdict pages (Wrong page rule) = IsFirstBroken pages rule page
