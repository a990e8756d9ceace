-- How many groups the log of an image has, and where it ends.
use Rattle.std.proofs.Common.{◌≡◌, ◌+◌, List, [], ◌∷◌, refl, ap, ◌∙◌, length, length-append}
use Rattle.nx_host.specs.Disk.{Image}
use Rattle.nx_host.specs.declared.disk.Disk.{Ghosts}
use Rattle.nx_replay.specs.Log.{Group, groups, end_of, HasGroup}
use Rattle.nx_records.specs.declared.records.Records.{Records}
use Rattle.nx_records.specs.Records.{log_length_of, image_group_count, log_end, IsInStepWith}

-- the log of the image in step ends where the records say
pub ends_there : {D : Type 0} {d : Ghosts D} (records : Records) {disk : D} {image : Image} → IsInStepWith d records disk image → log_length_of records ≡ log_end image
ends_there records step = ((step.follows).at).here

-- a log with a group more
pub one_more : (g : Group) (was now : Image) → HasGroup g was now → image_group_count now ≡ image_group_count was + 1
one_more g was now more = ap length more.log ∙ length-append (groups was.log) (g ∷ [])

-- a log without groups
pub none_counted : (image : Image) → groups image.log ≡ [] → image_group_count image ≡ 0
none_counted image none = ap length none

-- ... has no length
pub ends_at_none : (image : Image) → image_group_count image ≡ 0 → log_end image ≡ 0
ends_at_none image none = no_end (groups image.log) none
  where
    no_end : (gs : List Group) → length gs ≡ 0 → end_of gs ≡ 0
    no_end [] is = refl
    no_end (g ∷ gs) is = absurd (cc)
