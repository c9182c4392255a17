-- marks as items
pub mod MarkItems
-- spans as items
pub mod SpanItems
