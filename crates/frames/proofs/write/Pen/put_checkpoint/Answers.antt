use Rattle.frames.proofs.Writes.{puts, same_part}
use Rattle.frames.proofs.write.Pen.put_checkpoint.Goals as goal

pub returns-clause-puts : goal.returns-clause-puts
returns-clause-puts c =
    puts (puts (puts (puts (same_part c.checkpoint_bytes.ensures c.put.ensures) c.put_word.ensures.puts) c.put_word-2.ensures.puts) c.put_word-3.ensures.puts) c.put_word-4.ensures.puts
