-- What was given of bytes that are given block by block.
use Rattle.std.proofs.Common.{◌≡◌, ℕ, ◌+◌, ◌≤◌, ◌<◌, List, [], ◌++◌, length, Result, Err, refl, sym, ap, ◌∙◌, subst, arith, append_assoc, length-append}
use Rattle.nx_host.specs.declared.disk.Disk.{Ghosts}
use Rattle.nx_host.specs.Disk.{Beside, Rose}
use Rattle.nx_host.specs.Host.{AppendsPrefix}
use Rattle.nx_host.specs.Phase.{GivesAlone}
use Rattle.nx_host.proofs.DiskLemmas.{keeps_self}
use Rattle.nx_host.proofs.OutputLemmas.{appends_nothing, keeps_prefix}
use Rattle.nx_host.proofs.PhaseLemmas.{gives_prefix, gives_then}
use Rattle.nx_filters.specs.declared.give.GiveError.{GiveError}
use Rattle.nx_filters.specs.declared.give.GiveError.TheVariants as give_error
use Rattle.nx_filters.specs.Outcome.{Gives, FailsGiving, Given, GivesBut}
use Rattle.nx_filters.proofs.OutcomeLemmas.{gives_appends, gives_more, given_then, given_more}

-- nothing is a prefix of anything
pub given_nothing : (bytes : List ℕ) (a : Beside) → Given bytes (Err give_error.NoMemory) a a
given_nothing bytes a = keeps_prefix bytes a.output a.output (keeps_self a.output)

-- there is less to come once a block is given
pub less : (block left filled rest now : List ℕ) → filled ++ rest ≡ block ++ left → now ≡ [] → 65536 ≤ length filled → length now + length rest < length block + length left
less block left filled rest now same none enough =
    let a : length filled + length rest ≡ length block + length left = sym (length-append filled rest) ∙ ap length same ∙ length-append block left in
    let b : length now ≡ 0 = ap length none in
    omega arith

-- the rest is given
pub gave_rest : {bytes left : List ℕ} {a b : Beside} (given : Result (Unit {0}) GiveError) (c : Beside) → a.out_faults ≤ b.out_faults → GivesBut bytes left a b → Given left given b c →
    Given bytes given a c
gave_rest {left = left} {a = a} {b = b} given c earlier gives gave =
    subst (λ (t : List ℕ). Given t given a c) gives.parts (given_then {x = gives.done} {a = a} {b = b} left given c (record { later = earlier; gives = gives.gives }) gave)

-- what is left, in other words
pub left_is : {all x : List ℕ} {a b : Beside} (y : List ℕ) → GivesBut all x a b → x ≡ y → GivesBut all y a b
left_is {all = all} {a = a} {b = b} y gives is = subst (λ (l : List ℕ). GivesBut all l a b) is gives

-- nothing is given yet
pub all_left : (all left : List ℕ) (a : Beside) → left ≡ all → GivesBut all left a a
all_left all left a is = record { done = []; parts = is; gives = refl }

-- the first call fails
pub fails_at_once : (bytes : List ℕ) (old new : Beside) → 0 < length bytes → Rose old.out_faults new.out_faults → AppendsPrefix bytes old.output new.output → FailsGiving bytes old new
fails_at_once bytes old new some rose prefix =
    record { rose = rose; done = []; others = bytes; parts = refl; some = some; middle = old.output; appends = appends_nothing old.output; prefix = prefix }

-- a block is given, and the rest is to come
pub giving_more : {all : List ℕ} {a b : Beside} (block rest : List ℕ) (c : Beside) → GivesBut all (block ++ rest) a b → Gives block b.output c.output → GivesBut all rest a c
giving_more {a = a} {b = b} block rest c gives gave = record {
  done = gives.done ++ block;
  parts = append_assoc gives.done block rest ∙ gives.parts;
  gives = gives_more gives.done block a.output b.output c.output gives.gives gave;
}

-- or it isn't
pub giving_stops : {all : List ℕ} {a b : Beside} (block rest : List ℕ) (stop : GiveError) (c : Beside) → a.out_faults ≤ b.out_faults → GivesBut all (block ++ rest) a b →
    Given block (Err stop) b c → Given all (Err stop) a c
giving_stops {b = b} block rest stop c earlier gives gave = gave_rest (Err stop) c earlier gives (given_more block rest stop b c gave)

module _ {D : Type 0} {d : Ghosts D} where
  pub alone_rest : {a b c : D} {bytes left : List ℕ} → GivesBut bytes left (d.beside a) (d.beside b) → GivesAlone d bytes a b → GivesAlone d left b c → GivesAlone d bytes a c
  alone_rest {a = a} {b = b} {c = c} {left = left} gives first second =
      subst (λ (t : List ℕ). GivesAlone d t a c) gives.parts
      (gives_then gives.done left (gives_appends gives.done (d.beside a).output (d.beside b).output gives.gives)
      (subst (λ (t : List ℕ). GivesAlone d t a b) (sym gives.parts) first) second)

  pub giving_alone : {a b c : D} {all : List ℕ} (block rest : List ℕ) → GivesBut all (block ++ rest) (d.beside a) (d.beside b) → GivesAlone d all a b → GivesAlone d block b c →
      GivesAlone d all a c
  giving_alone block rest gives first second = alone_rest gives first (gives_prefix block rest second)
