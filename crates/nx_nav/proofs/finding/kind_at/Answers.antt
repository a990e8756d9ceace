use Rattle.std.proofs.Common.{◌≡◌, ℕ, List, Some, Option, get_or, refl, sym, ap, ◌∙◌}
use Rattle.std.specs.List.{slice_get}
use Rattle.std.proofs.lemmas.Option.{slice_get-get_or}
use Rattle.nx_records.specs.Records.{LeavesRecords}
use Rattle.nx_piece.specs.declared.piece.Piece.{Piece}
use Rattle.nx_piece.specs.declared.piece.Proxy.{Proxy}
use Rattle.nx_piece.specs.FoundView.{seen_child}
use Rattle.nx_piece.specs.Locate.{Kept}
use Rattle.nx_piece.specs.Viewing.{seen_items, seen_tree}
use Rattle.nx_piece.proofs.LocateLemmas.{kept_child, same_children}
use Rattle.nx_nav.specs.Beside.{child_asked}
use Rattle.nx_nav.proofs.BesideLemmas.{kept_kind, kept_reads, kept_refused}
use Rattle.nx_nav.proofs.finding.kind_at.Goals as goal

pub bounds-proxies-index : goal.bounds-proxies-index
bounds-proxies-index g c =
    kept_child c.as_slice-proxies.result.now c.args.first (seen_items c.args.tree.children) c.in-Some.position c.in-Some-Root.index c.in-Some-Root.member
    ((rw c.in-Some-Root.is at c.find_child.ensures) ∙ ap (λ x. Some (seen_child x)) c.in-Some-Root.field-0-is)

pub returns-in-Some-Root-clause-ok : goal.returns-in-Some-Root-clause-ok
returns-in-Some-Root-clause-ok g c =
    let other : Proxy = record { page = 0; slot = 0; roots = 0 } in
    let found = (rw c.in-Some-Root.is at c.find_child.ensures) ∙ ap (λ x. Some (seen_child x)) c.in-Some-Root.field-0-is in
    let same : c.as_slice-proxies.result.now ≡ c.args.piece.now.proxies = c.as_slice-proxies.ensures ∙ ap (λ (p : Piece). p.proxies) c.piece.view_is in
    let within = kept_child c.as_slice-proxies.result.now c.args.first (seen_items c.args.tree.children) c.in-Some.position c.in-Some-Root.index c.in-Some-Root.member found in
    let there : slice_get c.args.piece.now.proxies c.in-Some-Root.index ≡ Some (get_or c.as_slice-proxies.result.now c.in-Some-Root.index other) =
    ap (λ (ps : List Proxy). slice_get ps c.in-Some-Root.index) (sym same) ∙ slice_get-get_or c.as_slice-proxies.result.now c.in-Some-Root.index other within in
    let asked : child_asked c.args.piece.now.proxies (seen_tree c.args.tree) c.args.first c.args.child ≡ Some (Kept c.in-Some-Root.index c.in-Some-Root.member) =
    ap (λ (o : Option ℕ). child_asked c.args.piece.now.proxies (seen_tree c.args.tree) c.args.first o) c.in-Some.is ∙ same_children {f = seen_items c.args.tree.children} c.args.first c.in-Some.position same refl found in
    kept_kind g.D.Disk c.args.records.now c.root_kind.new.records c.args.disk.now c.root_kind.new.disk c.args.piece.now.proxies c.in-Some-Root.index c.in-Some-Root.member (get_or c.as_slice-proxies.result.now c.in-Some-Root.index other) there
    (child_asked c.args.piece.now.proxies (seen_tree c.args.tree) c.args.first c.args.child) asked c.root_kind.result (LeavesRecords c.args.records.now c.root_kind.new.records) c.root_kind.ensures.ok

pub returns-in-Some-Root-clause-reads : goal.returns-in-Some-Root-clause-reads
returns-in-Some-Root-clause-reads g c =
    let other : Proxy = record { page = 0; slot = 0; roots = 0 } in
    let found = (rw c.in-Some-Root.is at c.find_child.ensures) ∙ ap (λ x. Some (seen_child x)) c.in-Some-Root.field-0-is in
    let same : c.as_slice-proxies.result.now ≡ c.args.piece.now.proxies = c.as_slice-proxies.ensures ∙ ap (λ (p : Piece). p.proxies) c.piece.view_is in
    let within = kept_child c.as_slice-proxies.result.now c.args.first (seen_items c.args.tree.children) c.in-Some.position c.in-Some-Root.index c.in-Some-Root.member found in
    let there : slice_get c.args.piece.now.proxies c.in-Some-Root.index ≡ Some (get_or c.as_slice-proxies.result.now c.in-Some-Root.index other) =
    ap (λ (ps : List Proxy). slice_get ps c.in-Some-Root.index) (sym same) ∙ slice_get-get_or c.as_slice-proxies.result.now c.in-Some-Root.index other within in
    let asked : child_asked c.args.piece.now.proxies (seen_tree c.args.tree) c.args.first c.args.child ≡ Some (Kept c.in-Some-Root.index c.in-Some-Root.member) =
    ap (λ (o : Option ℕ). child_asked c.args.piece.now.proxies (seen_tree c.args.tree) c.args.first o) c.in-Some.is ∙ same_children {f = seen_items c.args.tree.children} c.args.first c.in-Some.position same refl found in
    kept_reads g.D.Disk c.args.records.now c.root_kind.new.records c.args.disk.now c.root_kind.new.disk c.args.piece.now.proxies c.in-Some-Root.index c.in-Some-Root.member (get_or c.as_slice-proxies.result.now c.in-Some-Root.index other) there
    (child_asked c.args.piece.now.proxies (seen_tree c.args.tree) c.args.first c.args.child) asked c.root_kind.result c.root_kind.ensures.reads

pub returns-in-Some-Root-clause-refused : goal.returns-in-Some-Root-clause-refused
returns-in-Some-Root-clause-refused g c =
    let other : Proxy = record { page = 0; slot = 0; roots = 0 } in
    let found = (rw c.in-Some-Root.is at c.find_child.ensures) ∙ ap (λ x. Some (seen_child x)) c.in-Some-Root.field-0-is in
    let same : c.as_slice-proxies.result.now ≡ c.args.piece.now.proxies = c.as_slice-proxies.ensures ∙ ap (λ (p : Piece). p.proxies) c.piece.view_is in
    let within = kept_child c.as_slice-proxies.result.now c.args.first (seen_items c.args.tree.children) c.in-Some.position c.in-Some-Root.index c.in-Some-Root.member found in
    let there : slice_get c.args.piece.now.proxies c.in-Some-Root.index ≡ Some (get_or c.as_slice-proxies.result.now c.in-Some-Root.index other) =
    ap (λ (ps : List Proxy). slice_get ps c.in-Some-Root.index) (sym same) ∙ slice_get-get_or c.as_slice-proxies.result.now c.in-Some-Root.index other within in
    let asked : child_asked c.args.piece.now.proxies (seen_tree c.args.tree) c.args.first c.args.child ≡ Some (Kept c.in-Some-Root.index c.in-Some-Root.member) =
    ap (λ (o : Option ℕ). child_asked c.args.piece.now.proxies (seen_tree c.args.tree) c.args.first o) c.in-Some.is ∙ same_children {f = seen_items c.args.tree.children} c.args.first c.in-Some.position same refl found in
    kept_refused g.D.Disk c.args.records.now c.root_kind.new.records c.args.disk.now c.root_kind.new.disk c.args.piece.now.proxies c.in-Some-Root.index c.in-Some-Root.member (get_or c.as_slice-proxies.result.now c.in-Some-Root.index other) there
    (child_asked c.args.piece.now.proxies (seen_tree c.args.tree) c.args.first c.args.child) asked c.root_kind.result c.requires.runs c.root_kind.ensures.refused
