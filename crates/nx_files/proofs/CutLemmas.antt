-- That a file which was cut isn't written, also where the files had to be opened or made first.
use Rattle.std.proofs.Common.{◌≡◌, ◌<◌, Option, None, Some, length, arith, refl, sym, ◌∙◌, subst}
use Rattle.std.specs.Prelude.{◌≢◌, IfSome, IsSome}
use Rattle.nx_host.specs.declared.disk.Area.{Area}
use Rattle.nx_files.specs.declared.file.StoreFile.{Ghosts}
use Rattle.nx_files.specs.declared.settled.SettledFile.{SettledFile}
use Rattle.nx_files.specs.declared.store.State.{State}
use Rattle.nx_files.specs.declared.store.State.TheVariants.{Unopened, Open, Broken}
use Rattle.nx_files.specs.Files.{HasFile, area_bytes, area_end, file_bytes, file_end, file_of}

-- a file that is missing wasn't cut
if_there : {T : Type 0} (t : Ghosts T) (file : Option (SettledFile T t)) (fails : Type 0)
    → (IsSome file → IfSome (file_bytes t file) (λ was. length was < file_end file → fails)) → IfSome (file_bytes t file) (λ was. length was < file_end file → fails)
if_there t None fails there = λ short. absurd (omega arith)
if_there t (Some file) fails there = there refl

pub cut_before : {T : Type 0} (t : Ghosts T) (area : Area) (old begun made : State T t) (fails : Type 0)
    → (old ≢ Unopened → begun ≡ old) → (HasFile area begun → made ≡ begun)
    → IfSome (area_bytes t area made) (λ was. length was < area_end area made → fails) → IfSome (area_bytes t area old) (λ was. length was < area_end area old → fails)
cut_before t area Unopened begun made fails again had cut = tt
cut_before t area Broken begun made fails again had cut = tt
cut_before {T} t area (Open store) begun made fails again had cut =
    let same : begun ≡ Open store = again (λ (is : Open store ≡ Unopened). cc) in
    if_there t (file_of area store) fails (λ there.
    subst (λ (state : State T t). IfSome (area_bytes t area state) (λ was. length was < area_end area state → fails))
    (had (subst (HasFile area) (sym same) there) ∙ same) cut)
