-- The parameters that are left to be reported.
use Rattle.std.specs.Prelude.{List}
use Rattle.sctp_codec.specs.declared.reports.Reports.{Reports as ReportsOfParameters}
use Rattle.sctp_codec.specs.Items.{ItemValue}
use Rattle.sctp_codec.specs.Parameters.{reported_in}
use Rattle.sctp_codec.specs.Values.{items_of}

abbrev pub reports_of : ReportsOfParameters → List ItemValue
reports_of reports = reported_in (items_of reports.rest)
