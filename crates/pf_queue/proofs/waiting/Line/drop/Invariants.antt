use Rattle.std.specs.VecDeque.{deque_len}
use Rattle.pf_queue.proofs.waiting.Line.drop.Given as goal

abbrev pub decreases-loop-waiting : goal.decreases-loop-waiting
decreases-loop-waiting g l = deque_len l.jobs
