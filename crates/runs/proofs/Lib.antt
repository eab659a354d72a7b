pub mod PlaceLaws
pub mod HeldLaws
pub mod RunPlaceLaws
pub mod SinkLaws
pub mod RawLaws
pub mod TrimLaws
