use Rattle.std.proofs.Common.{◌≡◌, ◌+◌, ◌≤◌, ◌++◌, length, map, vec_items, vec_len, vec_capacity}
use Rattle.programs.specs.Values.{listed}
use Rattle.runs.specs.Inside.{message}
use Rattle.runs.proofs.runner.stepping.post.Given as goal

abbrev pub invariant-loop-m : goal.invariant-loop-m
invariant-loop-m l = record {
  can : (goal.iterator-loop-m).can_next l.m-iterator;
  finite : (goal.iterator-loop-m).is_finite l.m-iterator;
  sent : vec_items l.waiting ≡ vec_items l.initial.waiting ++ map (message l.source) l.yielded;
  left : listed l.fn.sends ≡ l.yielded ++ listed l.m-iterator.rest;
  room : vec_len l.waiting + length (listed l.m-iterator.rest) ≤ vec_capacity l.waiting;
}
