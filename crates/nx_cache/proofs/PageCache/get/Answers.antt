use Rattle.std.proofs.Common.{List, ℕ, Some, ◌∙◌, ap, refl, sym}
use Rattle.std.specs.Option.{option_copied, option_map}
use Rattle.lru.specs.LruCache.{LruCache}
use Rattle.nx_slots.specs.declared.page.PageBytes.{PageBytes}
use Rattle.nx_cache.specs.declared.address.Address.{Address}
use Rattle.nx_cache.specs.Cached.{Cached, Frame, brought_to_front, bytes_listed, in_frames}
use Rattle.nx_cache.proofs.FrameLemmas.{framed_bytes, framed_front}
use Rattle.nx_cache.proofs.PageCache.get.Goals as goal
use Rattle.nx_cache.proofs.PageCache.get.Goals.{in-Some, in-None}

pub returns : goal.returns
returns c =
    let es = c.self.inside.pages.entries in
    let shown : List (Address × PageBytes) → ℕ → Cached = λ pages capacity. record { pages = pages; capacity = capacity } in
    let front =
    ap (λ (l : LruCache Address Frame). shown (in_frames l.entries) l.cap) c.get.follows.holds-at-none
    ∙ ap (λ pages. shown pages c.self.inside.pages.cap) (framed_front c.args.address es c.len-distinct.ensures.valid.0)
    ∙ ap (λ (k : Cached). shown (brought_to_front c.args.address k.pages) k.capacity) c.self.view_is in
    let listed = sym (framed_bytes c.args.address es) ∙ ap (λ (k : Cached). bytes_listed c.args.address k.pages) c.self.view_is in (
      (refl, λ _. tt, front),
      record {
        pages = tt;
        bytes = (elim c.match-get.branch [
          | in-Some w ↦ ap option_copied w.result-is ∙ ap Some w.as_ref.ensures ∙ ap (option_map (λ (r : Frame). r.value)) w.in-Some.ensures.value ∙ listed
          | in-None w ↦ ap option_copied w.result-is ∙ ap (option_map (λ (r : Frame). r.value)) w.in-None.ensures.value ∙ listed
        ]);
      },
    )
