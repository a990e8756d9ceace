use Rattle.std.proofs.Common.{List, ℕ, ◌∷◌, take, ◌∙◌, ap, sym}
use Rattle.std.specs.Box.{with_value}
use Rattle.std.specs.Option.{option_map}
use Rattle.lru.specs.LruCache.{LruCache}
use Rattle.nx_slots.specs.declared.page.PageBytes.{PageBytes}
use Rattle.nx_cache.specs.declared.address.Address.{Address}
use Rattle.nx_cache.specs.Cached.{Cached, Frame, bytes_listed, in_frames, page_with, without_page}
use Rattle.nx_cache.proofs.FrameLemmas.{framed_bytes, framed_put, framed_written, on_err}
use Rattle.nx_cache.proofs.PageCache.put.Goals as goal

pub returns-in-Some-clause-ok : goal.returns-in-Some-clause-ok
returns-in-Some-clause-ok c =
    framed_written c.self.inside.pages c.args.address c.in-Some.frame.now (with_value c.in-Some.frame.now (page_with c.copy_from_slice.new.self)) c.len-distinct.ensures.valid c.in-Some.ensures.value
    ∙ ap (λ (bytes : List ℕ). take c.self.inside.pages.cap ((c.args.address, page_with bytes) ∷ without_page c.args.address (in_frames c.self.inside.pages.entries))) c.copy_from_slice.ensures.after
    ∙ ap (λ (k : Cached). take k.capacity ((c.args.address, page_with c.args.bytes.now) ∷ without_page c.args.address k.pages)) c.self.view_is

pub returns-in_err-frame-clause-absent : goal.returns-in_err-frame-clause-absent
returns-in_err-frame-clause-absent c =
    on_err c.from_residual.result _
    (sym (ap (λ (k : Cached). bytes_listed c.args.address k.pages) c.self.view_is) ∙ framed_bytes c.args.address c.self.inside.pages.entries
    ∙ ap (option_map (λ (r : Frame). r.value)) (sym c.in_default.ensures.value))

pub returns-in-Err-clause-absent : goal.returns-in-Err-clause-absent
returns-in-Err-clause-absent c =
    sym (ap (λ (k : Cached). bytes_listed c.args.address k.pages) c.self.view_is) ∙ framed_bytes c.args.address c.self.inside.pages.entries
    ∙ ap (option_map (λ (r : Frame). r.value)) (sym c.in_default.ensures.value)

pub returns-in-Ok-clause-ok : goal.returns-in-Ok-clause-ok
returns-in-Ok-clause-ok c =
    ap (λ (l : LruCache Address Frame). in_frames l.entries) c.in-Ok.ensures.entries
    ∙ framed_put c.self.inside.pages c.args.address c.in_ok-frame.frame c.len-distinct.ensures.valid
    ∙ ap (λ (page : PageBytes). take c.self.inside.pages.cap ((c.args.address, page) ∷ without_page c.args.address (in_frames c.self.inside.pages.entries))) c.in_ok-frame.ensures
    ∙ ap (λ (k : Cached). take k.capacity ((c.args.address, page_with c.args.bytes.now) ∷ without_page c.args.address k.pages)) c.self.view_is
