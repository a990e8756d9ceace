-- What is read of a store whose log has nothing that waits.
use Rattle.std.proofs.Common.{◌≡◌, ℕ, List, [], ◌∷◌, ◌++◌, Option, Some, sym, ap, ◌∙◌}
use Rattle.std.specs.Option.{option_or, unwrap_or}
use Rattle.byteorder.specs.Endian.{big_bytes}
use Rattle.nx_host.specs.Disk.{Image}
use Rattle.nx_replay.specs.Log.{Entry, entry_bytes, entry_pages, replay}
use Rattle.nx_wal.specs.Wal.{current, pending}
use Rattle.nx_wal.specs.declared.wal.Wal.{Wal}
use Rattle.nx_ship.specs.Shipped.{bytes_of}
use Rattle.nx_ship.specs.Sent.{page_entry}
use Rattle.nx_ship.proofs.PageLemmas.{one_entry}

pub page_read : (wal : Wal) (was : Image) (page : ℕ) (found : Option (List ℕ)) → pending wal ≡ [] → current wal was page ≡ found → replay was page ≡ found
page_read wal was page found none is = ap (λ (ps : List Entry). option_or (entry_pages ps page) (replay was page)) (sym none) ∙ is

pub bytes_read : (was : Image) (page : ℕ) (bytes : List ℕ) → replay was page ≡ Some bytes → big_bytes 4 page ++ bytes ≡ entry_bytes (page_entry was page ∷ [])
bytes_read was page bytes is =
    ap (λ (o : Option (List ℕ)). big_bytes 4 page ++ unwrap_or o []) (sym is) ∙ sym (one_entry page (bytes_of (replay was) page))
