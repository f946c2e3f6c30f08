-- Why the ends of a link aren't joined.
use Rattle.std.specs.Prelude.{ℕ}
use Rattle.lab.specs.declared.joining.JoinFault.{JoinFault}
use Rattle.lab.specs.declared.joining.JoinFault.TheVariants.{Listen, Connect, Accept}

abbrev pub join_fault_number : JoinFault → ℕ
join_fault_number Listen = 1
join_fault_number Connect = 2
join_fault_number Accept = 3
