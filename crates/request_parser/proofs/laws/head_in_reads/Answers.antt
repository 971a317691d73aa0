use Rattle.request_parser.proofs.HeadLemmas.{head_in-reads, reads-head_in}
use Rattle.request_parser.proofs.laws.head_in_reads.Goals as goal

pub returns : goal.returns
returns c = λ text h. (reads-head_in text h, head_in-reads text h)
