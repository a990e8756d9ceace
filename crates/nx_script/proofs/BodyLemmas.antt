-- The node that a line says, and the content that bytes stand for.
use Rattle.std.proofs.Common.{◌≡◌, ℕ, List, Option, None, Some, ap, sym}
use Rattle.std.specs.Option.{option_map, option_map_or}
use Rattle.nx_tree.specs.declared.node.Node.{Node}
use Rattle.nx_pyx.specs.Event.{Event, event_of}
use Rattle.nx_pyx.specs.Fault.{fault_at}
use Rattle.nx_pyx.specs.Line.{event_fault, node_of, node_line_fault}
use Rattle.nx_pyx.specs.declared.error.PyxFault.{PyxFault}
use Rattle.nx_pyx.specs.declared.error.PyxFault.TheVariants.{BadCode}
use Rattle.nx_pyx.specs.declared.error.PyxError.{PyxError}
use Rattle.nx_script.specs.declared.command.LineBody.TheVariants.{Read, Wrong}
use Rattle.nx_script.specs.Line.{line_body}

wrong_event : (fault : Option PyxFault) (node : Node) (error : PyxError) → option_map (fault_at 1) fault ≡ Some error →
    Wrong error ≡ option_map_or (λ f. Wrong (fault_at 1 f)) fault (Read node)
wrong_event None node error h = cc
wrong_event (Some fault) node error h = let e : fault_at 1 fault ≡ error = cc in ap Wrong (sym e)

wrong_found : (found : Option Event) (error : PyxError) → option_map (fault_at 1) (option_map_or event_fault found (Some BadCode)) ≡ Some error →
    Wrong error ≡ option_map_or (λ e. option_map_or (λ f. Wrong (fault_at 1 f)) (event_fault e) (Read (node_of e))) found (Wrong (fault_at 1 BadCode))
wrong_found None error h = let e : fault_at 1 BadCode ≡ error = cc in ap Wrong (sym e)
wrong_found (Some e) error h = wrong_event (event_fault e) (node_of e) error h

-- a line that is no node
pub wrong_line : (line : List ℕ) (error : PyxError) → option_map (fault_at 1) (node_line_fault line) ≡ Some error → Wrong error ≡ line_body line
wrong_line line error h = wrong_found (event_of line) error h
