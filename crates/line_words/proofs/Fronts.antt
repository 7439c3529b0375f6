-- How many bytes stand before the first blank, seen from a place in the text.
use Rattle.std.proofs.lemmas.List.Sums.{prefix_len-drop_all, prefix_len-drop_no, prefix_len-drop_yes, prefix_len-le-length}

pub ruleset front_steps = (prefix_len-drop_all, prefix_len-drop_no, prefix_len-drop_yes, prefix_len-le-length)
