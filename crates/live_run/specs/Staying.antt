-- What stands of sessions as a book grows.
use Rattle.std.specs.Prelude.{◌≡◌, ℕ, ◌≤◌, true, length, reverse, take}
use Rattle.grid_script.specs.Scripts.{Lives}
use Rattle.grid_script.specs.declared.session.Session.{Session}
use Rattle.grid_book.specs.Booked.{Booked, history_of}
use Rattle.live_run.specs.Serving.{IsPartlyServed, deeds_by, has_answers, home_in, load_events, orders_of}

-- the book serves a part of the script, and has its whole load
pub record IsBegun (script : Lives) (book : Booked) : Type 0 where
  pub partly : IsPartlyServed script (history_of book)
  pub whole : length script.load ≤ length book.events

-- the session did nothing further, and its calls are answered where they were
pub record Stays (was is : Booked) (k : ℕ) : Type 0 where
  pub deeds : deeds_by k (reverse is.events) ≡ deeds_by k (reverse was.events)
  pub answers : has_answers (reverse was.events) k ≡ true → has_answers (reverse is.events) k ≡ true

-- the session did all that it is to do, and each of its calls is answered
pub record IsFinishedBy (script : Lives) (book : Booked) (k : ℕ) : Type 0 where
  pub all : deeds_by k (reverse book.events) ≡ orders_of script k
  pub answered : has_answers (reverse book.events) k ≡ true

-- the session is the script's of its number, and no load
pub record IsSessionOf (script : Lives) (session : Session) : Type 0 where
  pub positive : 1 ≤ session.number
  pub orders : orders_of script session.number ≡ session.orders
  pub home : home_in script.sessions session.number ≡ session.home

-- the book with so many entries of the load, and nothing else
abbrev pub with_load : Lives → ℕ → Booked
with_load script n = record { config = script.config; events = take n (load_events script) }
