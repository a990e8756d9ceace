-- The pages of a new store.
use Rattle.std.specs.Prelude.{None}
use Rattle.std.proofs.Math.ListN.{replicate}
use Rattle.nx_replay.specs.Log.{Pages}
use Rattle.nx_chain.specs.Chain.{chain_bytes}
use Rattle.nx_holdings.specs.declared.header.Header.{Header}
use Rattle.nx_holdings.specs.declared.header.Settings.{Settings}
use Rattle.nx_holdings.specs.Header.{header_bytes, newest_format}
use Rattle.nx_holdings.specs.Holdings.{with_page}

-- its header
abbrev pub first_head : Settings → Header
first_head settings = record { format = newest_format; settings = settings; pages = 2; free = 0; room = 0; number = 0; catalog = 1; catalog_length = 8 }

-- the header, and the page of a catalog without documents and rules
abbrev pub first_pages : Header → Pages
first_pages head = with_page (with_page (λ p. None) 0 (header_bytes head)) 1 (chain_bytes 0 (replicate 8 0))
