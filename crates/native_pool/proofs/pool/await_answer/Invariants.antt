use Rattle.std.proofs.Common.{◌≡◌, ◌<◌, ◌≤◌, ◌-◌, length}
use Rattle.std.specs.Prelude.{vec_len, vec_capacity}
use Rattle.native_board.specs.Boards.{hub_view}
use Rattle.native_pool.specs.Desks.{Balances, Rests}
use Rattle.native_pool.specs.Views.{desk_view}
use Rattle.native_pool.proofs.pool.await_answer.Given as goal

abbrev pub invariant-loop : goal.invariant-loop
invariant-loop g l = record {
  can : (goal.iterator-loop g).can_next l.iterator';
  finite : (goal.iterator-loop g).is_finite l.iterator';
  posts : l.history.posts.items ≡ l.fn.history.posts.items;
  answers : l.history.answers.items ≡ l.fn.history.answers.items;
  room : vec_len l.history.answers < vec_capacity l.history.answers;
  later : l.fn.history.moment ≤ l.history.moment;
  began : l.history.began ≡ l.fn.history.began;
  timely : l.history.moment ≤ g.C.Clock.reading l.clock - l.fn.history.began;
  rests : Rests (desk_view l.fn.desk) (desk_view l.desk);
  made : (hub_view l.desk.pass).made ≡ length (hub_view l.desk.pass).cells;
  jobs : Balances (desk_view l.desk) l.history.posts.items l.history.answers.items;
}
