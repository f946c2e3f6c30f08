use Rattle.std.proofs.Common.{◌≡◌, ◌∙◌}
use Rattle.served_node.specs.Logging.{line_of}
use Rattle.served_node.proofs.Written.{written}
use Rattle.served_node.proofs.log.Log.tell.Goals as goal

pub returns-clause-line : goal.returns-clause-line
returns-clause-line g c =
    let line : c.as_slice.result.now ≡ line_of c.as_bytes.result.now = c.as_slice.ensures.value ∙ c.line_of-line.ensures in (
      c.as_bytes.result.now,
      rw (c.as_bytes.ensures.value) c.as_str.ensures.fits,
      rw (← line) (written c.write-told.result c.as_slice.result.now _ _ c.write-told.ensures.all
          c.write-told.ensures.first c.write-told.ensures.counted),
    )
