use Rattle.std.proofs.Common.{◌≡◌, List, ◌++◌, ◌∙◌, subst}
use Rattle.nx_piece.specs.declared.piece.Far.{Far}
use Rattle.nx_piece.specs.declared.piece.Proxy.{Proxy}
use Rattle.nx_layouts.specs.Layout.{piece_of}
use Rattle.nx_edit.proofs.removing.remove_record.Goals as goal

pub returns-clause-ok : goal.returns-clause-ok
returns-clause-ok g c = (
  c.in_ok-taken.taken.fars.items,
  subst (λ (fs : List Far). c.extend_from_slice-2.new.self.items ≡ c.args.gone.now.items ++ fs) c.as_slice-2.ensures.value c.in-Ok-extend_from_slice.ensures.items,
  λ saved now stands tidy.
      let after = c.in_ok-taken.ensures.ok saved now stands tidy in (
        after.0,
        after.1,
        after.2,
        (
          after.3,
          λ members holds.
              let is = c.in_ok-taken.ensures.taken saved now (piece_of members) stands holds in
              (subst (λ (ps : List Proxy). c.extend_from_slice.new.self.items ≡ c.args.stack.now.items ++ ps) (c.as_slice.ensures ∙ is.proxies) c.in-Ok.ensures.items, is.nodes, is.fars),
        ),
      ),
)
