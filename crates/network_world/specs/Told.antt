-- What the steps of the code tell of, with what was answered: that says whether memory was refused.
use Rattle.network_world.specs.declared.doing.Doing.{Doing}
use Rattle.network_world.specs.declared.doing.Doing.TheVariants as doing
use Rattle.signalling_types.specs.declared.outcome.Outcome.{Outcome}
use Rattle.exchange.specs.Calls.{is_memory_refused}
use Rattle.pair_rules.specs.Pairs as pairs

-- what may be done at any node
abbrev pub doing_told : Doing → Outcome → pairs.Doing
doing_told (doing.Submit message) outcome = pairs.Submits message
doing_told (doing.Take link) outcome = pairs.Takes link
doing_told (doing.Deliver link) outcome = pairs.Delivers link
doing_told (doing.DeliverStatus link) outcome = pairs.DeliversStatus link
doing_told (doing.LoseStatus link) outcome = pairs.LosesStatus link
doing_told (doing.DoubleStatus link) outcome = pairs.DoublesStatus link
doing_told (doing.Lose link) outcome = pairs.Loses link
doing_told doing.Tick outcome = pairs.Ticks
doing_told (doing.Activate link emergency) outcome = pairs.Activates link emergency
doing_told (doing.Deactivate link) outcome = pairs.Deactivates link
doing_told (doing.Release link) outcome = pairs.Releases link
doing_told (doing.AddTitle row) outcome = pairs.AddsTitle row (is_memory_refused outcome)
doing_told (doing.SetTitle row) outcome = pairs.SetsTitle row (is_memory_refused outcome)
doing_told (doing.RemoveTitle key digits) outcome = pairs.RemovesTitle key digits.items
doing_told (doing.OpenFirst link) outcome = pairs.OpensFirst link
doing_told (doing.OpenSecond link) outcome = pairs.OpensSecond link
