use Rattle.settings_file.proofs.Explained.{explained}
use Rattle.settings_file.proofs.serve.sentences.sentence.Goals as goal

pub returns-in-Settings : goal.returns-in-Settings
returns-in-Settings c =
    explained c.sentence.result c.args.file.now c.in-Settings.found c.args.fault c.in-Settings.is c.sentence.ensures.names c.sentence.ensures.key
