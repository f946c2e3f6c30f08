use Rattle.sccp_relay.proofs.Basics.{◌<◌, rules, All-same, way_of}
use Rattle.sccp_relay.proofs.RowWays.{small-way}
use Rattle.sccp_relay.proofs.ways.way_of.Goals as goal

pub returns-clause-digits : goal.returns-clause-digits
returns-clause-digits c =
    All-same (λ digit. digit < 16) c.try_extend_from_slice-2.new.self.items (way_of c.args.row.now) (search rules)
    (small-way c.args.row.now c.key_of.ensures.translation c.key_of.ensures.plan c.key_of.ensures.nature c.digits.ensures.values)

pub returns-clause-ranges : goal.returns-clause-ranges
returns-clause-ranges c = record {
  plan = c.key_of.ensures.plan;
  nature = c.key_of.ensures.nature;
  some = c.digits.ensures.some;
  fits = c.digits.ensures.fits;
  values = c.digits.ensures.values;
}
