-- How the values of catalogs are stored as numbers and lists.
use Rattle.std.specs.Prelude.{◌≡◌, ℕ, List, refl}
use Rattle.std.proofs.Common.{zero, suc, ap}
use Rattle.std.specs.Coded.{Coded, code_by, coded×, coded_list, coded_ℕ}
use Rattle.std.specs.FinMap.{code}
use Rattle.nx_matrix.specs.declared.rule.Entry.{Entry}
use Rattle.nx_matrix.specs.declared.rule.Entry.TheVariants.{Standalone, Cluster, Free}
use Rattle.nx_matrix.specs.declared.rule.Rule.{Rule}
use Rattle.nx_hold.specs.declared.entry.DocEntry.{DocEntry}
use Rattle.nx_catalog.specs.Catalog.{Entries, Contents}

abbrev pub entry_number : Entry → ℕ
entry_number Standalone = 0
entry_number Cluster = 1
entry_number Free = 2

abbrev pub entry_by_number : ℕ → Entry
entry_by_number zero = Standalone
entry_by_number (suc zero) = Cluster
entry_by_number (suc (suc n)) = Free

pub entry_again : (e : Entry) → entry_by_number (entry_number e) ≡ e
entry_again Standalone = refl
entry_again Cluster = refl
entry_again Free = refl

abbrev pub rule_code : Coded Rule
rule_code = code_by (List ℕ × (List ℕ × ℕ)) (coded× (coded_list coded_ℕ) (coded× (coded_list coded_ℕ) coded_ℕ))
    (λ r. (r.parent, (r.child, entry_number r.entry)))
    (λ p. record { parent = p.0; child = p.1.0; entry = entry_by_number p.1.1 })
    (λ r. ap (λ (e : Entry). record { parent = r.parent; child = r.child; entry = e }) (entry_again r.entry))

abbrev pub document_code : Coded DocEntry
document_code = code_by (ℕ × (ℕ × ℕ)) (coded× coded_ℕ (coded× coded_ℕ coded_ℕ))
    (λ e. (e.root.page, (e.root.slot, e.nodes)))
    (λ p. record { root = record { page = p.0; slot = p.1.0 }; nodes = p.1.1 })
    (λ _. refl)

abbrev pub contents_code : Coded Contents
contents_code = code_by (Entries × List Rule) (coded× (code (coded_list coded_ℕ) document_code) (coded_list rule_code))
    (λ c. (c.documents, c.rules))
    (λ p. record { documents = p.0; rules = p.1 })
    (λ _. refl)
