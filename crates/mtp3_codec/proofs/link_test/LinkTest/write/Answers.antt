use Rattle.std.proofs.Common.{rules, ◌≡◌, ◌∙◌, ap, ℕ, take, length}
use Rattle.mtp3_codec.specs.Headings.{IsLabel}
use Rattle.mtp3_codec.specs.Management.{read_link_test, spelled}
use Rattle.mtp3_codec.specs.Values.{test_value}
use Rattle.mtp3_codec.proofs.TestKinds.{test-back}
use Rattle.mtp3_codec.proofs.link_test.LinkTest.write.Goals as goal

pub returns-clause-read_back : goal.returns-clause-read_back
returns-clause-read_back c =
    let text : take c.write_at.result c.write_at.new.out ≡ spelled c.args.dpc c.args.opc (test_value c.args.self.now) = search rules in
    let label : IsLabel (record { dpc = c.args.dpc; opc = c.args.opc; sls = c.args.self.now.slc }) = record { dpc = search rules; opc = search rules; sls = search rules } in
    ap read_link_test text ∙ test-back c.args.dpc c.args.opc (test_value c.args.self.now) label
