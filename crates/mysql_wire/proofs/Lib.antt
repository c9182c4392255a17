mod Appends
pub mod PacketLemmas
pub mod FrontLaws
mod HandshakeLemmas
mod HandshakeLaws
mod FieldLaws
mod ScanLaws
mod LayoutLaws
mod RowLaws
mod WrittenLaws
