pub mod PortLaws
pub mod TurningLaws
pub mod BackLaws
pub mod EitherLaws
pub mod CallLaws
