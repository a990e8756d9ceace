-- Chain pages, by their bytes.
use Rattle.std.specs.Prelude.{◌≡◌, ℕ, ◌-◌, ◌<◌, ◌≤◌, ◌^◌, List, [], ◌∷◌, ◌++◌, length, take, drop}
use Rattle.std.proofs.Math.ListN.{replicate}
use Rattle.nx_numbers.specs.Sizes.{page_size, page_room}
use Rattle.nx_numbers.specs.Numbers.{number_bytes}

-- what stands in front of the content: a page's kind and a zero byte, the number of content bytes, and the next page
unfoldable pub chain_head : ℕ → ℕ → List ℕ
chain_head next len = (2 ∷ 0 ∷ number_bytes 2 len) ++ number_bytes 4 next

-- a page's kind and a zero byte, the number of content bytes, the next page, the content, and zero bytes to the end
unfoldable pub chain_bytes : ℕ → List ℕ → List ℕ
chain_bytes next content =
    2 ∷ 0 ∷ number_bytes 2 (length content) ++ (number_bytes 4 next ++ (content ++ replicate (page_room - length content) 0))

-- The bytes are the chain page with this next page, 0 for none, and this content.
pub record IsChainPage (bytes : List ℕ) (next : ℕ) (content : List ℕ) : Type 0 where
  pub are : bytes ≡ chain_bytes next content
  pub low : next < 2 ^ 32
  pub some : 1 ≤ length content
  pub few : length content ≤ page_room

-- the bytes are none
abbrev pub IsNoChainPage : List ℕ → Type 0
IsNoChainPage bytes = (next : ℕ) (content : List ℕ) → IsChainPage bytes next content → ⊥

-- A page that has a chain page's kind, and zero bytes from the content's length on.
pub record IsBegun (page : List ℕ) : Type 0 where
  pub long : length page ≡ page_size
  pub head : take 2 page ≡ 2 ∷ 0 ∷ []
  pub rest : drop 4 page ≡ replicate (page_size - 4) 0
