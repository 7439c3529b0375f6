use Rattle.debug_session.specs.Talks.{lines_in}
use Rattle.debug_session.proofs.Talking.{talk_by_lines}
use Rattle.debug_session.proofs.laws.a_talk_without_cont_goes_by_its_lines.Goals as goal

pub returns : goal.returns
returns g c = λ front start seat came sent session lines rest talked are none.
    talk_by_lines front start seat came sent session lines talked (c.a_stream_has_one_list_of_lines.ensures.one came lines (lines_in talked.turns) rest session.framer are talked.lines).0 none
