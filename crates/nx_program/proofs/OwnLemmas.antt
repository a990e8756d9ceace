-- That files which a log leaves are taken as a store's own.
use Rattle.std.proofs.Common.{ℕ, List, [], ◌∷◌, Some, length, slice_get, refl, ap, arith}
use Rattle.nx_host.specs.Disk.{Image}
use Rattle.nx_wal.specs.Own.{IsOwn}
use Rattle.nx_files.specs.Own.{MayBeOwn}

taken : (pages log : List ℕ) → IsOwn (record { pages = pages; log = log }) → MayBeOwn (length pages) (slice_get log 0)
taken pages [] own = record {
  begins = tt;
  whole = λ long. absurd (omega (arith, own.has_log long));
  cut_short = λ some few. absurd (omega (arith, (own.opened some few).0));
}
taken pages (byte ∷ bytes) own = record {
  begins = own.begins;
  whole = λ long. refl;
  cut_short = λ some few. ap Some (own.opened some few).0;
}

pub own_is_taken : (image : Image) → IsOwn image → MayBeOwn (length image.pages) (slice_get image.log 0)
own_is_taken image own = taken image.pages image.log own
