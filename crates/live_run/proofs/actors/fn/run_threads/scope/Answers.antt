-- What the threads take along may go to them: the handle and the gate, which several may use, and the lock, under which is what may go
-- to another thread.
use mathlib.Core.List.{[], ◌∷◌}
use denote.Param.Send.{IsSend, IsSync, param_send, param_sync, shr_send, sendable}
use denote.Exit.{no}
use denote.Param.{param}
use denote.Ref.{NamedLft}
use denote.Struct.Field.{u64-field, u8-field}
use Rattle.std.proofs.Crossing as std
use Rattle.live_run.proofs.Captures.{captures_send}
use Rattle.live_run.proofs.CrossingShared.{Grid-sync, Shared-send}
use Rattle.live_run.proofs.actors.fn.run_threads.scope.Goals as goal

pub spawn-requires-send-F : goal.spawn-requires-send-F
spawn-requires-send-F g c κs within =
    let known : IsSync g.row.R = assumption c.requires in
    let served : IsSend g.row.B = assumption c.requires in
    let handle = param_sync 0 g.row.R known in
    let lock = λ (ℓ : NamedLft). Grid-sync _ (Shared-send ℓ (param 1 g.row.B) g.B.Scripted (param_send 1 g.row.B served)) in
    let place : IsSend (u64-field).row = search sendable in
    captures_send _ 1 _ no (_ ∷ _ ∷ _ ∷ _ ∷ []) (shr_send _ _ _ handle, (std.send, (shr_send _ _ _ (lock _), (place, tt))))

pub spawn-requires-2-send-F : goal.spawn-requires-2-send-F
spawn-requires-2-send-F g c κs within =
    let known : IsSync g.row.R = assumption c.requires in
    let served : IsSend g.row.B = assumption c.requires in
    let handle = param_sync 0 g.row.R known in
    let lock = λ (ℓ : NamedLft). Grid-sync _ (Shared-send ℓ (param 1 g.row.B) g.B.Scripted (param_send 1 g.row.B served)) in
    captures_send _ 1 _ no (_ ∷ _ ∷ _ ∷ []) (shr_send _ _ _ handle, (std.send, (shr_send _ _ _ (lock _), tt)))

pub spawn-requires-in-loop-send-F : goal.spawn-requires-in-loop-send-F
spawn-requires-in-loop-send-F g c κs within =
    let known : IsSync g.row.R = assumption c.requires in
    let served : IsSend g.row.B = assumption c.requires in
    let passed : IsSync g.row.G = assumption c.requires in
    let handle = param_sync 0 g.row.R known in
    let gate = param_sync 2 g.row.G passed in
    let lock = λ (ℓ : NamedLft). Grid-sync _ (Shared-send ℓ (param 1 g.row.B) g.B.Scripted (param_send 1 g.row.B served)) in
    let number : IsSend (u8-field).row = search sendable in
    captures_send _ 1 _ no (_ ∷ _ ∷ _ ∷ _ ∷ _ ∷ [])
    (shr_send _ _ _ handle, (std.send, (shr_send _ _ _ (lock _), (number, (shr_send _ _ _ gate, tt)))))
