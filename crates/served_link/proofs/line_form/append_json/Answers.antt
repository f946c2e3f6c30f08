use Rattle.std.proofs.Common.{◌≡◌, ◌++◌, codes}
use Rattle.served_link.specs.LineForms.{cut, escaped}
use Rattle.served_link.specs.Severities.{severity_name, severity_of}
use Rattle.served_link.proofs.LineTexts.{seven_pieces}
use Rattle.served_link.proofs.line_form.append_json.Goals as goal

pub returns : goal.returns
returns c =
    let name : c.append-4.new.line.items ≡ cut (c.append-3.new.line.items ++ severity_name (severity_of c.args.text.now)) =
    rw (← c.of.ensures, ← c.name.ensures, ← c.as_bytes.ensures.value) c.append-4.ensures in
    seven_pieces c.args.line.now.items (codes "{\"time\":\"") c.args.time.now (codes "\",\"severity\":\"")
    (severity_name (severity_of c.args.text.now)) (codes "\",\"text\":\"") (escaped c.args.text.now) (codes "\"}\n")
    c.append.ensures c.append-2.ensures c.append-3.ensures name c.append-5.ensures c.append_escaped.ensures c.append-6.ensures
