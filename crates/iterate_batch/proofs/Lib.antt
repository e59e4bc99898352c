pub mod FlyingLaws
