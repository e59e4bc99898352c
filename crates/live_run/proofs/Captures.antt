-- That what a closure captures may go to another thread where each part of it may.
use mathlib.Core.List.{List, [], ◌∷◌}
use Prim.Native.Nat.{ℕ}
use mir.Syntax.{Sym, Ty}
use denote.Exit.{Kept}
use denote.RattleType.{RattleType}
use denote.Param.{param, arg}
use denote.Param.Send.{AllSend, IsSend, arg_send, param_send}
use denote.Param.SendFields.{FieldsHave, as_row_send, declared_send}
use denote.Struct.Field.{row_field}
use denote.Struct.Tuple.{TupleAt, parts, type_at}

-- each part may go as a field where it may by itself
fields : (Ts : List RattleType) → AllSend Ts → FieldsHave IsSend (parts Ts)
fields [] all = tt
fields (T ∷ Ts) all = (as_row_send (row_field T) all.0, fields Ts all.1)

-- the closure may go where each of its captures may
pub captures_send : (ν : Sym) (i : ℕ) (δ : Ty) (k : Kept) (Ts : List RattleType) → AllSend Ts → IsSend (param i (arg δ k (TupleAt ν Ts)))
captures_send ν i δ k Ts all = param_send i _ (arg_send δ k _ (declared_send (type_at ν Ts) (fields Ts all)))
