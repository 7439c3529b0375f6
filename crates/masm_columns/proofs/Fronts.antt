-- How many elements at the front of a list pass a test, seen from a place in the list.
use Rattle.std.proofs.lemmas.List.Sums.{prefix_len-drop_all, prefix_len-drop_no, prefix_len-drop_yes, prefix_len-le-length}

pub ruleset front_steps = (prefix_len-drop_all, prefix_len-drop_no, prefix_len-drop_yes, prefix_len-le-length)
