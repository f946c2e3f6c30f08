use Rattle.std.proofs.Common.{◌≡◌, ◌+◌, ◌<◌, ◌++◌, length, take, map}
use Rattle.sctp_codec.specs.Parameters.{report_of, fitting, following}
use Rattle.sctp_codec.specs.Reports.{reports_of}
use Rattle.sctp_codec.proofs.reports.write_reports.Given as goal

abbrev pub invariant-each_report : goal.invariant-each_report
invariant-each_report l = record {
  bound : l.end + l.padding + l.room ≡ l.fn.at + l.fn.padding + 512;
  few : l.padding < 4;
  count : l.end + length (following l.padding (fitting l.room (map (report_of l.is_wrapped) (reports_of l.item-iterator)))) ≡ l.fn.at + length (following l.fn.padding (fitting 512 (map (report_of l.fn.is_wrapped) (reports_of l.fn.reports))));
  text : take l.end l.out ++ following l.padding (fitting l.room (map (report_of l.is_wrapped) (reports_of l.item-iterator))) ≡ take l.fn.at l.fn.out ++ following l.fn.padding (fitting 512 (map (report_of l.fn.is_wrapped) (reports_of l.fn.reports)));
}
