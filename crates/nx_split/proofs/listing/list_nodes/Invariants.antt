use Rattle.std.proofs.Common.{◌≡◌, ◌+◌, ◌≤◌, drop}
use Rattle.std.specs.Option.{option_copied}
use Rattle.nx_piece.specs.Gapped.{gapped_size, grown_of, proxies_in, gapped_width}
use Rattle.nx_piece.specs.Valid.{AreFar}
use Rattle.nx_sketch.specs.Sketch.{spots_of}
use Rattle.nx_split.specs.Piece.{asked_of_root, sketch_of}
use Rattle.nx_split.proofs.ListLemmas.{IsListed}
use Rattle.nx_split.proofs.listing.list_nodes.Given as goal

abbrev pub invariant-loop-position : goal.invariant-loop-position
invariant-loop-position l = record {
  fits : l.first + proxies_in (grown_of (drop l.position l.root-items)) ≡ proxies_in l.piece.body.roots;
  far : AreFar (grown_of (drop l.position l.root-items));
  small : gapped_size (grown_of (drop l.position l.root-items)) ≤ 512;
  few : l.position + gapped_width (grown_of (drop l.position l.root-items)) ≡ gapped_width l.piece.body.roots;
  listed : IsListed l.matrix l.proxies (asked_of_root l.matrix (option_copied l.above)) l.first l.position (grown_of (drop l.position l.root-items)) l.spots.items (spots_of (sketch_of l.matrix (option_copied l.above) l.piece));
}
