use Rattle.std.proofs.Common.{sym}
use Rattle.served_node.proofs.Sights.{kept}
use Rattle.stp_server.proofs.tcp_links.connection.Connection.hand_in_octets.Goals as goal

pub shape_of-node : goal.shape_of-node
shape_of-node g c =
    sym (kept (λ w. w.observers.ghost_name) _ (λ _ _ _ seen. seen.0) _ _ _ c.read.ensures.kept_read.seen)
