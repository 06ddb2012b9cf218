-- A closure may go to a thread where all that it holds may.
use mathlib.Core.List.{List, [], ◌∷◌}
use Prim.Native.Nat.{ℕ}
use mir.Syntax.{Sym, Ty}
use denote.Exit.{no}
use denote.Param.{param, arg}
use denote.Param.Send.{IsSend, AllSend, param_send, arg_send, recorded_send, struct_send}
use denote.RattleType.{RattleType}
use denote.Struct.Declared.{shape}
use denote.Struct.Field.{rows}
use denote.Struct.Tuple.{TupleAt, parts, type_at}

-- what a closure holds, in its order, may go to a thread
pub record Captured (Ts : List RattleType) : Type 0 where
  pub sent : AllSend (rows (parts Ts))

pub nothing : Captured []
nothing = record { sent = tt }

infixr 5 ◌and◌
pub ◌and◌ : {T : RattleType} {Ts : List RattleType} → IsSend T → Captured Ts → Captured (T ∷ Ts)
first and others = record { sent = (first, others.sent) }

pub spawned : {Ts : List RattleType} (i : ℕ) (δ : Ty) (ν : Sym) → Captured Ts → IsSend (param i (arg δ no (TupleAt ν Ts)))
spawned {Ts} i δ ν held = param_send i _
    (arg_send δ no _ (recorded_send _ _ _ (type_at ν Ts).to_one (struct_send (shape (type_at ν Ts)) held.sent)))
