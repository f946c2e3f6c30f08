-- Each gate is that of its link, and its ports have 16 bits.
use Rattle.std.proofs.Common.{rules, ◌≡◌, ◌<◌, ◌≤◌, ◌+◌, ℕ, [], ◌∷◌, ◌++◌, List, length, sym, subst, ap, ◌∙◌, drop, arith}
use Rattle.std.specs.Prelude.{slice_get}
use Rattle.sctp_rules.specs.WrittenPackets.{HasPorts}
use Rattle.node_world.specs.Kept.{KeptPort}
use Rattle.node_world.specs.Making.{gate_make_of, first_port, first_ports, AreInOrder}
use Rattle.node_world.proofs.MadeGates.{ports-more, have-more, ports-are, are-in-order}
use Rattle.node_world.proofs.node.ports_of.Goals as goal

pub loop-link-preserved : goal.loop-link-preserved
loop-link-preserved c =
    let grown : c.push.new.self.items ≡ c.loop-link.ports.items ++ c.in_ok-port.port ∷ [] = search rules in
    let below : c.loop-link.link < length c.args.gates.now = omega (arith, c.requires, c.loop-link-test.true) in
    record {
      first = subst (λ (l : List KeptPort). l ++ first_ports (c.loop-link.link + 1) (drop (c.loop-link.link + 1) c.args.gates.now) ≡ first_ports 0 c.args.gates.now) (sym grown)
          (ports-more c.args.gates.now c.loop-link.link c.loop-link.ports.items c.in_ok-port.port below
          (c.in_ok-port.ensures.first ∙ ap (λ (i : ℕ). first_port i (gate_make_of (slice_get c.args.gates.now i))) c.new.ensures) c.loop-link.invariant.first);
      ports = have-more (λ m. HasPorts m.settings) c.args.gates.now c.loop-link.link
          (subst (λ (i : ℕ). HasPorts (gate_make_of (slice_get c.args.gates.now i)).settings) c.new.ensures c.in_ok-port.ensures.ports) c.loop-link.invariant.ports;
      order = have-more (λ m. AreInOrder m.settings.bounds) c.args.gates.now c.loop-link.link
          (subst (λ (i : ℕ). AreInOrder (gate_make_of (slice_get c.args.gates.now i)).settings.bounds) c.new.ensures c.in_ok-port.ensures.order) c.loop-link.invariant.order;
    }

pub returns-clause-ports : goal.returns-clause-ports
returns-clause-ports c =
    let past : length c.args.gates.now ≤ c.loop-link.link = omega (arith, c.requires, c.loop-link-test.false) in
    ports-are c.args.gates.now c.loop-link.link past c.loop-link.invariant.ports

pub returns-clause-order : goal.returns-clause-order
returns-clause-order c =
    let past : length c.args.gates.now ≤ c.loop-link.link = omega (arith, c.requires, c.loop-link-test.false) in
    are-in-order c.args.gates.now c.loop-link.link past c.loop-link.invariant.order
