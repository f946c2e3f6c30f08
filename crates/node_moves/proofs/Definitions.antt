-- Definitions that the proofs here are about, and lemmas of the crates below.
pub use Rattle.exchange_rules.specs.First.{Abstract, first_state}
pub use Rattle.exchange_rules.specs.State.{Parts, Node, Done, with_parts, answer, refuse, is_link, link_at, links_with, with_link, down, in_service}
pub use Rattle.exchange_rules.specs.Queues.{WholeQueues, whole, queue_at, with_queue}
pub use Rattle.exchange_rules.specs.Routing.{entry_of, set_of, adjacent_of, peer_of, link_of, no_room, queue_on, waits, hold}
pub use Rattle.exchange_rules.specs.ChangingOver.{changeover_of, with_changeover}
pub use Rattle.exchange_rules.specs.Telling.{management_to, own_sio}
pub use Rattle.exchange_rules.specs.LinkTests.{testing}
pub use Rattle.changeover.specs.Changeover.{Standing, no_changeover}
pub use Rattle.link.specs.Queue.{Queue, first_queue, emptied, appended, last_accepted}
pub use Rattle.link.specs.declared.alignment.Alignment.{Alignment}
pub use Rattle.link.specs.declared.alignment.Alignment.TheVariants.{Down, NotAligned, Aligned, Proving, AlignedReady, InService}
pub use Rattle.mtp3_codec.specs.Management.{read_management, management_octets, IsManagement}
pub use Rattle.mtp3_codec.specs.declared.fault.MgmtFault.{MgmtFault}
pub use Rattle.mtp3_codec.specs.declared.management.Management.{Management}
pub use Rattle.node_links.specs.NodeLinks.{Link, is_down, is_in_service, down_link}
pub use Rattle.settings.specs.Well.{IsWell, IsLink, IsSet, is_same_code, is_set_to_same_point}
pub use Rattle.settings.specs.Configuration.{Configuration, LinkEntry, SetEntry}
pub use Rattle.signalling_types.specs.Message.{Message, flow_of, is_management, dpc_of, opc_of, service_indicator}
pub use Rattle.signalling_types.specs.declared.limits.TheConstants.Limits.{SIF_OCTETS, WINDOW}
