pub mod DatumLemmas
mod InlineOrder
pub mod NodesLemmas
pub mod Order
