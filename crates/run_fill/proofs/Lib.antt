pub mod PlaceLaws
pub mod SoundLaws
