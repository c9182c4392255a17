-- fields at the front of bytes, one after another
pub mod Fields
