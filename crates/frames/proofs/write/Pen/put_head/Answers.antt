use Rattle.std.proofs.Common.{ap, ◌∙◌}
use Rattle.frames.specs.Frames.{short}
use Rattle.frames.proofs.Writes.{puts, same_part}
use Rattle.frames.proofs.write.Pen.put_head.Goals as goal

pub returns : goal.returns
returns c =
    puts (same_part (c.to_le_bytes.ensures ∙ ap short (c.from.ensures ∙ c.long.ensures)) c.put.ensures)
    (same_part (c.to_le_bytes-2.ensures ∙ ap short c.kind.ensures) c.put-2.ensures)
