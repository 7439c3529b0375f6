use Rattle.debugline.proofs.Streams.{left_is_rest, rest_is_left}
use Rattle.debugline.proofs.laws.a_rest_is_what_a_stream_leaves.Goals as goal

pub returns-clause-left : goal.returns-clause-left
returns-clause-left c = left_is_rest

pub returns-clause-is_left : goal.returns-clause-is_left
returns-clause-is_left c = rest_is_left
