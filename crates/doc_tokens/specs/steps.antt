pub mod TokenReader
