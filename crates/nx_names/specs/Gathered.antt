-- Which labels stand at or below records, gathered of what a walk shows.
use Rattle.std.specs.Prelude.{◌≡◌, ℕ, ◌-◌, ◌<◌, ◌&&◌, ◌||◌, Bool, true, false, List, [], ◌∷◌, ◌++◌, length, take, get_or}
use Rattle.std.specs.Str.{bytes_eq}
use Rattle.std.specs.List.Sorted.{IsNonDecreasing}
use Rattle.nx_matrix.specs.Label.{label_by}
use Rattle.nx_layouts.specs.Layout.{RecordPlace}
use Rattle.nx_names.specs.declared.map.LabelMap.{LabelMap}
use Rattle.nx_names.specs.declared.gatherer.Gatherer.{Gatherer}
use Rattle.nx_names.specs.Look.{Look, RecordBegins, NodeBegins, NodeEnds, RecordEnds, RecordPassed}
use Rattle.nx_names.specs.Serials.{is_in, serials_at, has_noted, noted_from}
use Rattle.nx_names.specs.Opening.{HasThoseBefore}
use Rattle.nx_names.specs.Numbering.{AreRight, IsNumbering}

-- whether a node at or below the record at a place has the label, by the map
abbrev pub holds_label : LabelMap → RecordPlace → List ℕ → Bool
holds_label map place name = has_noted map.placed.items place (is_in (serials_at map.serials name))

-- What was gathered: the numbers of the intervals around the walk, the outermost's first; the places of the records in the order of their numbers, from 0 on; and whether a node with
-- a label came in the interval of the record of a number.
pub record Gathered : Type 0 where
  pub around : List ℕ
  pub places : List RecordPlace
  pub heard : List ℕ → ℕ → Bool

abbrev pub gathered_after : Gathered → Look → Gathered
gathered_after g (RecordBegins place) = record { around = g.around ++ length g.places ∷ []; places = g.places ++ place ∷ []; heard = g.heard }
gathered_after g (NodeBegins kind name) = record { around = g.around; places = g.places; heard = λ asked serial. g.heard asked serial || (bytes_eq asked (label_by kind name) && is_in g.around serial) }
gathered_after g (NodeEnds kind) = g
gathered_after g RecordEnds = record { around = take (length g.around - 1) g.around; places = g.places; heard = g.heard }
gathered_after g (RecordPassed count) = g

abbrev pub gathered_behind : Gathered → List Look → Gathered
gathered_behind g [] = g
gathered_behind g (look ∷ looks) = gathered_behind (gathered_after g look) looks

abbrev pub nothing_gathered : Gathered
nothing_gathered = record { around = []; places = []; heard = λ asked serial. false }

-- so much has been gathered
pub record HasGathered (gatherer : Gatherer) (g : Gathered) : Type 0 where
  pub around : gatherer.around.items ≡ g.around
  pub noted : gatherer.noted.items ≡ noted_from 0 g.places
  pub heard : (name : List ℕ) (serial : ℕ) → is_in (serials_at gatherer.serials name) serial ≡ g.heard name serial
  pub small : (k : ℕ) (d : RecordPlace) → k < length g.places → (get_or g.places k d).slot < 65536
  pub rises : IsNonDecreasing g.around
  pub came : (serial : ℕ) → is_in g.around serial ≡ true → serial < length g.places
  pub ascend : (name : List ℕ) → IsNonDecreasing (serials_at gatherer.serials name)
  pub known : (name : List ℕ) (serial : ℕ) → is_in (serials_at gatherer.serials name) serial ≡ true → serial < length g.places
  pub before : (name : List ℕ) → HasThoseBefore (serials_at gatherer.serials name) g.around
  pub numbering : IsNumbering gatherer.serials
  pub right : AreRight gatherer.serials.numbers gatherer.hints

-- so much was shown to it
abbrev pub GathersLabels : Gatherer → List Look → Gatherer → Type 0
GathersLabels old looks new = (g : Gathered) → HasGathered old g → HasGathered new (gathered_behind g looks)
