-- That keys, values, pipelines and lists of them may go to another thread, and be looked at by several.
use denote.RattleType.{RattleType}
use denote.Param.Send.{IsSend, IsSync, sendable, struct_send, struct_sync}
use denote.Struct.Declared.{shape}
use Rattle.std.proofs.Crossing as std
use Rattle.pipeline_expr.proofs.expr.Expr.TheLaws.TheKnot.{send-Expr, sync-Expr}
use Rattle.pipeline_expr.specs.contracts.expr.Expr as Expr
use Rattle.sqlite_items.specs.contracts.boxed.Boxed as Boxed
use Rattle.sqlite_items.specs.contracts.items.Items as Items
use Rattle.grid_base.specs.contracts.inline_text.InlineText as InlineText
use Rattle.grid_base.specs.contracts.text.Text as Text
use Rattle.grid_base.specs.contracts.key.Key as Key
use Rattle.grid_base.specs.contracts.datum.Datum as Datum
use Rattle.grid_base.specs.contracts.stamped.Stamped as Stamped
use Rattle.grid_base.specs.contracts.stamped_entry.StampedEntry as StampedEntry
use Rattle.grid_base.specs.contracts.entry.Entry as Entry
use Rattle.grid_base.specs.contracts.item.Item as Item
use Rattle.grid_base.specs.contracts.sequence.Sequence as Sequence
use Rattle.pipeline_expr.specs.contracts.spread.Exprs as Exprs
use Rattle.pipeline_expr.specs.contracts.spread.Spread as Spread
use Rattle.pipeline_expr.specs.contracts.op.Op as Op
use Rattle.pipeline_expr.specs.contracts.pipeline.Pipeline as Pipeline

-- a boxed value may go to another thread where the value may
pub Boxed-send : (T : RattleType) → IsSend T → IsSend (Boxed.the_row T)
Boxed-send T s = search (std.crosses, sendable) depth 20

-- several threads may look at a boxed value where the value may
pub Boxed-sync : (T : RattleType) → IsSync T → IsSync (Boxed.the_row T)
Boxed-sync T s = search (std.crosses, sendable) depth 20

-- a boxed value in a field may go to another thread where the value may
pub BoxedField-send : (T : RattleType) → IsSend T → IsSend (Boxed.the_field T).row
BoxedField-send T s = search (std.crosses, sendable) depth 20

-- a list may go to another thread where its elements may
pub Items-send : (T : RattleType) → IsSend T → IsSend (Items.the_field T).row
Items-send T s = search (std.crosses, sendable) depth 20

-- several threads may look at a list where its elements may
pub Items-sync : (T : RattleType) → IsSync T → IsSync (Items.the_field T).row
Items-sync T s = search (std.crosses, sendable) depth 20

-- a list may go to another thread where its elements may
pub Sequence-send : (T : RattleType) → IsSend T → IsSend (Sequence.the_field T).row
Sequence-send T s = search (std.crosses, sendable) depth 20

-- several threads may look at a list where its elements may
pub Sequence-sync : (T : RattleType) → IsSync T → IsSync (Sequence.the_field T).row
Sequence-sync T s = search (std.crosses, sendable) depth 20

-- an inline text may go to another thread
InlineText-send : IsSend (InlineText.the_field).row
InlineText-send = search sendable depth 20

-- several threads may look at an inline text
InlineText-sync : IsSync (InlineText.the_field).row
InlineText-sync = search sendable depth 20

-- a text may go to another thread
Text-send : IsSend (Text.the_field).row
Text-send = search (InlineText-send, std.crosses, sendable) depth 20

-- several threads may look at a text
Text-sync : IsSync (Text.the_field).row
Text-sync = search (InlineText-sync, std.crosses, sendable) depth 20

-- a key may go to another thread
pub Key-send : IsSend (Key.the_field).row
Key-send = search (InlineText-send, sendable) depth 20

-- several threads may look at a key
pub Key-sync : IsSync (Key.the_field).row
Key-sync = search (InlineText-sync, sendable) depth 20

-- a value may go to another thread
pub Datum-send : IsSend (Datum.the_field).row
Datum-send = search (Text-send, sendable) depth 20

-- several threads may look at a value
pub Datum-sync : IsSync (Datum.the_field).row
Datum-sync = search (Text-sync, sendable) depth 20

-- a value may go to another thread, as a list or a map holds it
pub Datum-kept-send : IsSend Datum.the_row
Datum-kept-send = let d = Datum-send in search sendable

-- a value with its deadline may go to another thread
pub Stamped-send : IsSend (Stamped.the_field).row
Stamped-send = let d = Datum-send in search sendable depth 20

-- a value with its deadline may go to another thread, as a list or a map holds it
pub Stamped-kept-send : IsSend Stamped.the_row
Stamped-kept-send = let d = Stamped-send in search sendable

-- a stamped entry may go to another thread
pub StampedEntry-send : IsSend (StampedEntry.the_field).row
StampedEntry-send = let s = Stamped-send in let k = Key-send in search sendable depth 20

-- a stamped entry may go to another thread, as a list or a map holds it
pub StampedEntry-kept-send : IsSend StampedEntry.the_row
StampedEntry-kept-send = let s = StampedEntry-send in search sendable

-- an entry may go to another thread
pub Entry-send : IsSend (Entry.the_field).row
Entry-send = let d = Datum-send in let k = Key-send in search sendable depth 20

-- several threads may look at an entry
pub Entry-sync : IsSync (Entry.the_field).row
Entry-sync = let d = Datum-sync in let k = Key-sync in search sendable depth 20

-- an entry may go to another thread, as a list or a map holds it
pub Entry-kept-send : IsSend Entry.the_row
Entry-kept-send = let e = Entry-send in search sendable

-- several threads may look at an entry, as a list or a map holds it
pub Entry-kept-sync : IsSync Entry.the_row
Entry-kept-sync = let e = Entry-sync in search sendable

-- an item may go to another thread
pub Item-send : IsSend (Item.the_field).row
Item-send = let d = Datum-send in let e = Entry-send in search sendable depth 20

-- an item may go to another thread, as a list or a map holds it
pub Item-kept-send : IsSend Item.the_row
Item-kept-send = let i = Item-send in search sendable

-- an expression may go to another thread
Expr-send : IsSend (Expr.the_field).row
Expr-send = send-Expr Datum-send Boxed-send

-- several threads may look at an expression
Expr-sync : IsSync (Expr.the_field).row
Expr-sync = sync-Expr Datum-sync Boxed-sync

-- an expression may go to another thread, as a list or a map holds it
Expr-kept-send : IsSend Expr.the_row
Expr-kept-send = let e = Expr-send in search sendable

-- several threads may look at an expression, as a list or a map holds it
Expr-kept-sync : IsSync Expr.the_row
Expr-kept-sync = let e = Expr-sync in search sendable

-- the expressions of a spread may go to another thread
Exprs-send : IsSend (Exprs.the_field).row
Exprs-send = struct_send (shape Exprs.the_type) (Expr-send, (Items-send _ Expr-kept-send, tt))

-- several threads may look at the expressions of a spread
Exprs-sync : IsSync (Exprs.the_field).row
Exprs-sync = struct_sync (shape Exprs.the_type) (Expr-sync, (Items-sync _ Expr-kept-sync, tt))

-- a spread may go to another thread
Spread-send : IsSend (Spread.the_field).row
Spread-send = let e = Expr-send in let i = Exprs-send in search sendable depth 20

-- several threads may look at a spread
Spread-sync : IsSync (Spread.the_field).row
Spread-sync = let e = Expr-sync in let i = Exprs-sync in search sendable depth 20

-- an operation may go to another thread
Op-send : IsSend (Op.the_field).row
Op-send = let e = Expr-send in let i = Spread-send in search sendable depth 20

-- several threads may look at an operation
Op-sync : IsSync (Op.the_field).row
Op-sync = let e = Expr-sync in let i = Spread-sync in search sendable depth 20

-- an operation may go to another thread, as a list or a map holds it
pub Op-kept-send : IsSend Op.the_row
Op-kept-send = let e = Op-send in search sendable

-- several threads may look at an operation, as a list or a map holds it
Op-kept-sync : IsSync Op.the_row
Op-kept-sync = let e = Op-sync in search sendable

-- a pipeline may go to another thread
pub Pipeline-send : IsSend (Pipeline.the_field).row
Pipeline-send = struct_send (shape Pipeline.the_type) (Items-send _ Op-kept-send, (search sendable depth 20, tt))

-- several threads may look at a pipeline
pub Pipeline-sync : IsSync (Pipeline.the_field).row
Pipeline-sync = struct_sync (shape Pipeline.the_type) (Items-sync _ Op-kept-sync, (search sendable depth 20, tt))
