use Rattle.settings_file.proofs.Parsed.{server-parsed}
use Rattle.settings_file.proofs.serve.document.read_server.Goals as goal

pub returns : goal.returns
returns c = λ s text parsed. rw (server-parsed s text _ parsed) (c.contents.ensures s)
