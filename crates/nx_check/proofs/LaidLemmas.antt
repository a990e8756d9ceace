-- Rows as a record lays them.
use Rattle.std.proofs.Common.{◌≡◌, ℕ, zero, suc, ◌+◌, List, [], ◌∷◌, ◌++◌, length, take, drop, Option, None, Some, refl, sym, ap, ◌∙◌, subst, arith, append_assoc, append-nil}
use Rattle.nx_replay.specs.Log.{Pages}
use Rattle.nx_tree.specs.declared.node.Node.{Node}
use Rattle.nx_tree.specs.Forest.{Forest}
use Rattle.nx_piece.specs.declared.piece.Proxy.{Proxy}
use Rattle.nx_piece.specs.PieceNode.{PieceNode}
use Rattle.nx_piece.specs.Gapped.{Gapped, End, Grow, Gap, proxies_in}
use Rattle.nx_cuts.specs.Cut.{Bare, Grown, Kept}
use Rattle.nx_layouts.specs.Layout.{LaidNode, shown_with, in_record, gap_more}
use Rattle.nx_rules.specs.Walked.{Reached, Waits, Walked, walked_forest, marks_of, WaitAll, walked_body, walked_proxies, AreRead}
use Rattle.nx_rules.proofs.MeetLemmas.{wait_left, wait_right, proxies_counted}
use Rattle.nx_check.specs.Shown.{IsShownBy, AreShownBy}
use Rattle.nx_check.specs.Standing.{waiting_row, IsLaidRow}

pub waiting_forest : (ps : List Proxy) (w : Walked) → walked_forest (waiting_row ps w) ≡ walked_forest w
waiting_forest [] w = refl
waiting_forest (p ∷ ps) w = waiting_forest ps w

shown_by : (n : Node) (list : Option ℕ) → IsShownBy (shown_with n list) n
shown_by n None = record { kind = refl; name = refl; long = refl }
shown_by n (Some first) = record { kind = refl; name = refl; long = refl }

pub node_shown : (n : LaidNode) (item : PieceNode) → in_record n ≡ item → IsShownBy item n.node
node_shown n item e = subst (λ (i : PieceNode). IsShownBy i n.node) e (shown_by n.node n.list)

-- the items show the row's trees
pub laid_shown : (g : Gapped) (ps : List Proxy) (w : Walked) → IsLaidRow g ps w → AreShownBy g (walked_forest w)
laid_shown End ps w h = subst (λ (x : Walked). AreShownBy End (walked_forest x)) (sym h) tt
laid_shown (Grow item below beside) ps w h =
    subst (λ (x : Walked). AreShownBy (Grow item below beside) (walked_forest x)) (sym h.3)
    (node_shown h.0 item h.4, laid_shown below ps h.1 h.5, laid_shown beside (drop (proxies_in below) ps) h.2 h.6)
laid_shown (Gap count beside) ps w h =
    subst (λ (f : Forest). AreShownBy beside f) (sym (ap walked_forest h.1 ∙ waiting_forest (take count ps) h.0)) (laid_shown beside (drop count ps) h.0 h.2)

drop_front : {A : Type 0} (xs ys : List A) (n : ℕ) → length xs ≡ n → drop n (xs ++ ys) ≡ ys
drop_front [] ys zero e = refl
drop_front [] ys (suc n) e = absurd (omega (arith, e))
drop_front (x ∷ xs) ys zero e = absurd (omega (arith, e))
drop_front (x ∷ xs) ys (suc n) e = drop_front xs ys n (omega (arith, e))

-- one proxy more in front
gap_laid : (g : Gapped) (p : Proxy) (ps : List Proxy) (s : Walked) → IsLaidRow g ps s → IsLaidRow (gap_more g) (p ∷ ps) (Kept (Waits p) Bare s)
gap_laid End p ps s h = (s, refl, h)
gap_laid (Grow item below beside) p ps s h = (s, refl, h)
gap_laid (Gap count beside) p ps s h =
    let more : count + 1 ≡ suc count = omega arith in
    subst (λ (n : ℕ). IsLaidRow (Gap n beside) (p ∷ ps) (Kept (Waits p) Bare s)) (sym more) (h.0, ap (λ (x : Walked). Kept (Waits p) Bare x) h.1, h.2)

laid_before : (pages : Pages) (w : Walked) (more : List Proxy) → WaitAll (marks_of w) → AreRead pages w → IsLaidRow (walked_body w) (walked_proxies w ++ more) w
laid_before pages Bare more wait read = refl
laid_before pages (Grown n b s) more wait read =
    let split : (walked_proxies b ++ walked_proxies s) ++ more ≡ walked_proxies b ++ (walked_proxies s ++ more) = append_assoc (walked_proxies b) (walked_proxies s) more in
    let behind : walked_proxies s ++ more ≡ drop (proxies_in (walked_body b)) ((walked_proxies b ++ walked_proxies s) ++ more) =
    sym (ap (λ (l : List Proxy). drop (proxies_in (walked_body b)) l) split ∙ drop_front (walked_proxies b) (walked_proxies s ++ more) (proxies_in (walked_body b)) (proxies_counted b)) in (
      n,
      b,
      s,
      refl,
      refl,
      subst (λ (l : List Proxy). IsLaidRow (walked_body b) l b) (sym split) (laid_before pages b (walked_proxies s ++ more) (wait_left (marks_of b) (marks_of s) wait) read.0),
      subst (λ (l : List Proxy). IsLaidRow (walked_body s) l s) behind (laid_before pages s more (wait_right (marks_of b) (marks_of s) wait) read.1),
    )
laid_before pages (Kept (Reached p cs) b s) more wait read = absurd wait
laid_before pages (Kept (Waits x) b s) more wait read =
    subst (λ (m : Walked). IsLaidRow (gap_more (walked_body s)) (x ∷ walked_proxies s ++ more) (Kept (Waits x) m s)) (sym read.0)
    (gap_laid (walked_body s) x (walked_proxies s ++ more) s (laid_before pages s more (wait_right (marks_of b) (marks_of s) wait) read.1))

-- the row of a record that was read, in which all waits
pub laid_row : (pages : Pages) (w : Walked) (g : Gapped) (ps : List Proxy) → WaitAll (marks_of w) → AreRead pages w → walked_body w ≡ g → walked_proxies w ≡ ps → IsLaidRow g ps w
laid_row pages w g ps wait read body proxies =
    subst (λ (h : Gapped). IsLaidRow h ps w) body
    (subst (λ (l : List Proxy). IsLaidRow (walked_body w) l w) (append-nil (walked_proxies w) ∙ proxies) (laid_before pages w [] wait read))
