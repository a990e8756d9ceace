use Rattle.std.proofs.Common.{◌≡◌, ℕ, List, Option, refl, sym, subst}
use Rattle.std.specs.Option.{option_copied}
use Rattle.nx_tree.specs.declared.node.Node.{Node}
use Rattle.nx_parts.specs.declared.interval.Interval.{Interval}
use Rattle.nx_matrix.specs.declared.rule.Rule.{Rule}
use Rattle.nx_records.specs.Words.{Settings}
use Rattle.nx_records.specs.Records.{settings_of}
use Rattle.nx_piece.specs.declared.piece.Piece.{Piece}
use Rattle.nx_hold.specs.Changes.{place_of}
use Rattle.nx_sketch.specs.Split.{IsDivision}
use Rattle.nx_split.specs.Piece.{placed_of}
use Rattle.nx_divide.proofs.WrittenLemmas.{written_both}
use Rattle.nx_divide.proofs.TopLemmas.{divides_ok, gives_up}
use Rattle.nx_divide.proofs.SplitLemmas.{splits_ok, splits_refused}
use Rattle.nx_divide.proofs.FitLemmas.{parts_fit}
use Rattle.nx_divide.proofs.dividing.divide_at.Goals as goal

-- the division, as the parts of a slice and by the settings of the records
told : (rules : List Rule) (above : Option Node) (piece : Piece) (room : ℕ) (asked settings : Settings) (found parts : List Interval) (raised : Option ℕ) → asked ≡ settings → parts ≡ found
    → IsDivision asked.k (placed_of rules above piece) room asked.target asked.tolerance found raised → IsDivision settings.k (placed_of rules above piece) room settings.target settings.tolerance parts raised
told rules above piece room asked settings found parts raised same are division =
    subst (λ (l : List Interval). IsDivision settings.k (placed_of rules above piece) room settings.target settings.tolerance l raised) (sym are)
    (subst (λ (s : Settings). IsDivision s.k (placed_of rules above piece) room s.target s.tolerance found raised) same division)

pub put_parts-requires-clause-division : goal.put_parts-requires-clause-division
put_parts-requires-clause-division g c =
    let division = told c.args.matrix.now (option_copied c.args.above) c.args.piece c.args.room c.settings-settings.result (settings_of c.args.records.now) c.in-Ok.division.parts c.as_slice.result.now c.in-Ok.division.raised c.settings-settings.ensures c.as_slice.ensures c.in-Ok.ensures in
    record { rules = c.args.matrix.now; above = option_copied c.args.above; room = c.args.room; division = division }

pub returns-clause-splits : goal.returns-clause-splits
returns-clause-splits g c =
    let division = told c.args.matrix.now (option_copied c.args.above) c.args.piece c.args.room c.settings-settings.result (settings_of c.args.records.now) c.in-Ok.division.parts c.as_slice.result.now c.in-Ok.division.raised c.settings-settings.ensures c.as_slice.ensures c.in-Ok.ensures in
    splits_ok g.D.Disk (settings_of c.args.records.now) c.args.matrix.now c.args.room (option_copied c.args.above) (place_of c.args.rid) c.args.records.now c.put_parts.new.records refl c.args.disk.now c.put_parts.new.disk c.args.piece c.requires.heavy c.put_parts.result
    (divides_ok g.D.Disk (settings_of c.args.records.now) c.args.matrix.now (option_copied c.args.above) c.args.records.now.head_range.settings.k.1 c.args.piece c.as_slice.result.now c.args.room c.in-Ok.division.raised division (written_both c.args.piece.body.roots c.requires.near c.requires.piece.body.far) c.requires.piece (place_of c.args.rid) c.args.records.now c.put_parts.new.records c.args.disk.now c.put_parts.new.disk c.put_parts.result c.put_parts.ensures.ok)

pub returns-clause-refused : goal.returns-clause-refused
returns-clause-refused g c =
    let division = told c.args.matrix.now (option_copied c.args.above) c.args.piece c.args.room c.settings-settings.result (settings_of c.args.records.now) c.in-Ok.division.parts c.as_slice.result.now c.in-Ok.division.raised c.settings-settings.ensures c.as_slice.ensures c.in-Ok.ensures in
    splits_refused g.D.Disk (settings_of c.args.records.now) c.args.matrix.now c.args.room (option_copied c.args.above) (place_of c.args.rid) c.args.records.now c.put_parts.new.records refl c.args.disk.now c.put_parts.new.disk c.args.piece c.put_parts.result c.put_parts.ensures.cause
    (gives_up g.D.Disk (settings_of c.args.records.now) c.args.matrix.now (option_copied c.args.above) c.args.records.now.head_range.settings.k.1 c.args.piece c.as_slice.result.now c.args.room c.in-Ok.division.raised division (written_both c.args.piece.body.roots c.requires.near c.requires.piece.body.far) c.requires.piece (place_of c.args.rid) c.args.records.now c.put_parts.new.records c.args.disk.now c.put_parts.new.disk c.put_parts.result c.put_parts.ensures.refused)

pub returns-clause-row : goal.returns-clause-row
returns-clause-row g c =
    let division = told c.args.matrix.now (option_copied c.args.above) c.args.piece c.args.room c.settings-settings.result (settings_of c.args.records.now) c.in-Ok.division.parts c.as_slice.result.now c.in-Ok.division.raised c.settings-settings.ensures c.as_slice.ensures c.in-Ok.ensures in
    parts_fit g.D.Disk (settings_of c.args.records.now) c.args.records.now.head_range.settings.k.1 c.args.piece c.as_slice.result.now c.in-Ok.division.raised
    (record { rules = c.args.matrix.now; above = option_copied c.args.above; room = c.args.room; division = division }) c.requires.piece c.requires.near (place_of c.args.rid) c.args.records.now c.put_parts.new.records c.args.disk.now c.put_parts.new.disk c.requires.few
    c.put_parts.result c.put_parts.ensures.ok
