-- That what the threads of a run share may go to another thread, and that they may look at its script.
use denote.RattleType.{RattleType}
use denote.Ref.{NamedLft}
use denote.Param.Send.{IsSend, IsSync, sendable, struct_send}
use denote.Struct.Declared.{shape}
use Rattle.std.proofs.Crossing as std
use Rattle.live_run.proofs.CrossingValues.{Key-sync, Entry-sync, Entry-kept-sync, Items-sync, Sequence-sync}
use Rattle.live_run.proofs.CrossingEvents.{Request-sync, Config-sync}
use Rattle.live_run.proofs.CrossingCalls.{Book-send}
use Rattle.grid_script.specs.contracts.member.Member as Member
use Rattle.grid_script.specs.contracts.deed.Deed as Deed
use Rattle.grid_script.specs.contracts.session.Session as Session
use Rattle.grid_script.specs.contracts.live_script.LiveScript as LiveScript
use Rattle.node_workers.specs.contracts.grid.Grid as Grid
use Rattle.live_run.specs.declared.shared.Scripted as Scripted
use Rattle.live_run.specs.contracts.shared.Shared as Shared
use Rattle.live_run.specs.contracts.shared.Shared.TheInside as inside

-- several threads may look at a member
Member-sync : IsSync Member.the_row
Member-sync = search sendable depth 20

-- several threads may look at a deed
Deed-sync : IsSync (Deed.the_field).row
Deed-sync = let e = Entry-sync in let k = Key-sync in let r = Request-sync in search sendable depth 20

-- several threads may look at a deed, as a list or a map holds it
Deed-kept-sync : IsSync Deed.the_row
Deed-kept-sync = let d = Deed-sync in search sendable

-- several threads may look at a session
Session-sync : IsSync (Session.the_field).row
Session-sync = let d = Items-sync _ Deed-kept-sync in search sendable depth 20

-- several threads may look at a session, as a list or a map holds it
Session-kept-sync : IsSync Session.the_row
Session-kept-sync = let s = Session-sync in search sendable

-- several threads may look at a live script
pub LiveScript-sync : IsSync (LiveScript.the_field).row
LiveScript-sync =
    let c = Config-sync in let e = Sequence-sync _ Entry-kept-sync in let m = Items-sync _ Member-sync in let s = Items-sync _ Session-kept-sync in
    search sendable depth 20

-- several threads may look at a live script, as a list or a map holds it
pub LiveScript-kept-sync : IsSync LiveScript.the_row
LiveScript-kept-sync = let s = LiveScript-sync in search sendable

-- what is shared may go to another thread where what stands for the script may
module _ (ℓ : NamedLft) (T : RattleType) (g : Scripted.Ghosts T.Denot) where
  pub Shared-send : IsSend T → IsSend (Shared.the_row ℓ T g)
  Shared-send s =
      let b = Book-send in let l = LiveScript-kept-sync in
      let fields : IsSend (inside.the_field ℓ T g).row = struct_send (shape (inside.the_type ℓ T g)) (
        Book-send,
        (
          search sendable depth 20,
          (
            search (std.crosses, sendable) depth 20,
            (
              search sendable depth 20,
              (
                search sendable depth 20,
                (
                  search (std.crosses, sendable) depth 20,
                  (search sendable depth 20, (search sendable depth 20, (search sendable depth 20, tt))),
                ),
              ),
            ),
          ),
        ),
      ) in
      let whole : IsSend (inside.the_row ℓ T g) = search sendable in search sendable depth 20

-- a value under a lock may be looked at by several threads where it may go to another one
pub Grid-sync : (T : RattleType) → IsSend T → IsSync (Grid.the_row T)
Grid-sync T s = search (std.crosses, sendable) depth 20
