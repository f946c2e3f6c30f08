-- What SCCP writes, a message that goes on or what returns one, has a label, and fits a signalling information field.
pub use Rattle.sccp_relay.proofs.WrittenFields.{Fits, onward-fits, returned-fits}
